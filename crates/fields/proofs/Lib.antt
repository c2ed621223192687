pub mod RunningTotals
pub mod Bounds
pub mod BoundNumbers
pub mod PairFields

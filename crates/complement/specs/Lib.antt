pub mod Complemented
pub mod ArcRefusals
pub mod Sizes
pub mod Allowed
pub mod sections
pub mod audit

pub mod Bounded
pub mod ComplementRow
mod ComplementStep
mod RefusalsCorrespond
pub mod WrittenRows
pub mod ComplementNet
pub mod Figure64
pub mod CorrespondingMoves
pub mod ComplementWellFormed
pub mod Demand3
pub mod Dead
pub mod Possible
pub mod DeadComplement

pub mod Below
pub mod PairHalves

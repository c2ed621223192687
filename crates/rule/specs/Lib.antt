pub mod AtPair

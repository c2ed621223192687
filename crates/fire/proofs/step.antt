mod Adding
mod Summing
mod AtPairs

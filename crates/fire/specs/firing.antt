pub mod AtMode

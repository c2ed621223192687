pub mod OnePass

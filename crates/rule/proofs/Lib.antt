pub mod FourTests

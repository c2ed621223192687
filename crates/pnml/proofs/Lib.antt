pub mod ImportRefusal

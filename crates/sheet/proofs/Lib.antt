pub mod Lakes

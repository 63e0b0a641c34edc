pub mod Toy

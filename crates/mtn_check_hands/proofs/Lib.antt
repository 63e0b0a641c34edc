pub mod Answering
pub mod AtHand
pub mod Holding
pub mod Kindred
pub mod Stretches
pub mod Positions

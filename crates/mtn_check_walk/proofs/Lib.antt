mod Stretches
mod Walks

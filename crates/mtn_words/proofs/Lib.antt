mod WordsLemmas
mod PathWords
mod Names
mod Counts

mod OneState
mod SpelledCerts

mod NewStamps
mod SlotFacts
mod ToldTwos

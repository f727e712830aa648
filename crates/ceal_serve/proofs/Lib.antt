-- texts: their mark and their lines
mod Marks
mod FirstLine
mod Heads
-- conversations
mod Hearing
mod HeardLines
mod Sources
mod Following
mod Steps
mod Opening
-- words
mod Asked
-- and `ceal run`
mod Places
mod AsRun
mod Pieces

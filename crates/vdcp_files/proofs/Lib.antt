-- The lemmas, file by file.
mod PlayableLemmas
mod FileLines

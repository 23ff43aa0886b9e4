-- The lemmas, file by file.
mod Written

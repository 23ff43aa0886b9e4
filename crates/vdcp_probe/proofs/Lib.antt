-- The lemmas, file by file.
mod Clips

-- The lemmas, file by file.
mod Sending

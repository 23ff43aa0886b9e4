-- The lemmas that answers take.
mod TextLemmas
mod ShowLemmas
mod MakeLemmas
mod Examples
mod Named

-- The lemmas, file by file.
mod JudgeLoops
mod JudgeSteps
mod SimNumbered
mod SimRan
mod SimRefusals
mod VectorLemmas
mod Examples
mod CheckLemmas

-- The lemmas, file by file.
pub mod HeadLemmas
pub mod ReadingLemmas
pub mod BurstLemmas
pub mod SizeLemmas
pub mod SpellingLemmas
pub mod FrameLemmas
pub mod ChangedByteLemmas
pub mod ReaderLemmas
pub mod FeedLemmas
pub mod PieceLemmas
pub mod FollowLemmas
pub mod WalkLemmas

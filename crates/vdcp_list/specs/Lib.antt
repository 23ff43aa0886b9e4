-- The definitions, file by file.
pub mod Asrun
pub mod Catalogues
pub mod List
pub mod ListLaws
pub mod Listings
pub mod Places
pub mod Playlists
pub mod Reading
pub mod RestLaws
pub mod Rests
pub mod Rows
pub mod Timed
pub mod Values

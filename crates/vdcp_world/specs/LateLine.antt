-- What the laws of a line that keeps order cite.
pub mod Damage
pub mod Asking
pub mod LateEvent
pub mod LateChannel
pub mod Pipe
pub mod LateHeadline
pub mod GoingOn
pub mod Joined

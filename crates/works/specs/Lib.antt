pub mod inspect
pub mod two_frames

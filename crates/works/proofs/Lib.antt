pub mod of_a_plan
pub mod of_frames

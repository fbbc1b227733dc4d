pub mod Apart
pub mod BlockSent
pub mod DataWords
pub mod FrameAnswers
pub mod OnPlans
pub mod OnStreams
pub mod Sent
pub mod Within

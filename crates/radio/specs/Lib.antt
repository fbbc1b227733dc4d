pub mod ExciterCalls
pub mod Lines
pub mod NextBlock
pub mod ReceiverCalls
pub mod ReceiverStates
pub mod ExciterStates
pub mod Promise
pub mod Runs

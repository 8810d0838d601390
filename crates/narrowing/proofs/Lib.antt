pub mod Alike
pub mod Messages
pub mod Sends
pub mod Never
pub mod SameCalls
pub mod Tested

pub mod FileLaws
pub mod Files
pub mod PortCalls
pub mod PortLaws
pub mod PortRules
pub mod Ports

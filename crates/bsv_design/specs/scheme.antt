-- What a design means, however it is written: traces, schemes, states, and elements that are run one at a time.
pub mod Traces
pub mod Schemes
pub mod States
pub mod Rooms
pub mod Relations
pub mod Serial
pub mod Seen

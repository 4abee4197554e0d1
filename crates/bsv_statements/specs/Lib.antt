pub mod Bodies
pub mod Laws
pub mod Returns
pub mod ReturnsSeen
pub mod SeenBodies

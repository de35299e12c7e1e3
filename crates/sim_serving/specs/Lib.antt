pub mod Clients
pub mod Proxy
pub mod Laws
pub mod Examples
pub mod Core
pub mod Hearing
pub mod Lawful
pub mod Shows

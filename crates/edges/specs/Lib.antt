pub mod Device
pub mod Parts
pub mod Sockets
pub mod Looks
pub mod UdpLinks

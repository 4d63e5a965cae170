pub mod Commands
pub mod Words
pub mod Scripts
pub mod Run
pub mod Printed
pub mod Statuses
pub mod Laws

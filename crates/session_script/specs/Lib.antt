pub mod Fields
pub mod Lines
pub mod Load
pub mod Names
pub mod Schedule
pub mod ScheduleLines
pub mod Script
pub mod Texts

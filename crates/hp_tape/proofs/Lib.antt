pub mod Leads
mod Worked

pub mod SealedMachines

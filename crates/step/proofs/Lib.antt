pub mod Fluxes

pub mod Difference
pub mod Office
pub mod Deals
pub mod Faults
pub mod Absorbing

mod Laws
mod Checks

mod Chains
mod Halvings

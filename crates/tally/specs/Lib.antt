pub mod Simulates

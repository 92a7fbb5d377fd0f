pub mod Standin

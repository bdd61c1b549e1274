pub mod IssuersKeyed

pub mod NullHosts

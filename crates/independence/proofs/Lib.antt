pub mod Independence

pub mod HeldOf

pub mod CountLemmas
mod HallLemmas
pub mod StreamLemmas

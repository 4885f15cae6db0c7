mod GroupLemmas
mod SetLemmas

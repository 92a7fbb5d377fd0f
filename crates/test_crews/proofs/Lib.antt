pub mod FlightLemmas

-- What holds of the simulation, for laws alone.
pub mod StepsEnough

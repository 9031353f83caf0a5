-- From the calls of closures, flow by flow, to the sides that they make.
pub mod Asking
pub mod FlowByFlow
pub mod Numbers
pub mod OneMoreAsk
pub mod Registry
pub mod Users

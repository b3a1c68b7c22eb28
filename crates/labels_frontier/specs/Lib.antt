-- What the code of the frontier needs besides the definition of its work.
pub mod FrontierLaws

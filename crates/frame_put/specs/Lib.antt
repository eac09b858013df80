-- What the contracts cite and model does not name: the lines of the plan text, and the window line and the rest line as the code writes them.
pub mod Lines
pub mod Window
pub mod Rest

mod FirstEdit
mod GoesOn

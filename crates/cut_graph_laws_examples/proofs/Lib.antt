mod Listing
mod Acceptance
mod Computed

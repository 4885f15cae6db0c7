mod LoadTexts
mod OneLoad
mod ReadyTexts
mod WordPlaces
